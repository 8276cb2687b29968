mod EachHeard
mod Memberships
mod Quorums
mod Waiting
