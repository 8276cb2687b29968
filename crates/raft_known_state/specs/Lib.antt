pub mod KnownState
