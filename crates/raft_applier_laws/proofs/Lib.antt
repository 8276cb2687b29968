pub mod ReadyStates
