pub mod Held
pub mod StopHeld
pub mod MemoHeld
pub mod LeavesHeld
