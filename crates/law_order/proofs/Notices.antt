pub mod Marks
pub mod Sinking
pub mod Sinkings
pub mod Noticing
pub mod Leading
pub mod Lanes
pub mod Soundness
pub mod NoticeRuns
