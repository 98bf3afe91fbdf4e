pub mod NewsHides
pub mod NotesSpare
pub mod Provided
pub mod Moving
pub mod Shown
pub mod Ends
