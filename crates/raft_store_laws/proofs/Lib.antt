pub mod StorableSteps
mod Adding
