mod MemberIds
mod QueueLemmas
