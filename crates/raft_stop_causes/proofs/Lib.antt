mod Stored
mod Events
mod Calls
mod Openings
mod Law
mod OnFiles
