pub mod StepFrames
pub mod FrameRows
