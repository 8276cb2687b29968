pub mod Written
pub mod Moved
pub mod Standing
pub mod Keeping
pub mod Going
pub mod Ends
pub mod Chunks
pub mod Gone
pub mod Stood
pub mod Calls
pub mod Caused
pub mod Living
mod Counting
pub mod Judged
pub mod Telling
mod Oldest
