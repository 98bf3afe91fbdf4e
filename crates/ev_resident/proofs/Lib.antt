mod Entries
pub mod Each
mod Growth
mod Places
pub mod Saying
pub mod Shows
mod Passing
mod NamesHeard
pub mod NotesShown
mod Later
pub mod Naming
pub mod NotesFramed
pub mod Lines
pub mod Framing
mod FramesOut
pub mod Worlds
mod Roots
pub mod Brought
pub mod Exporting
