pub mod Names
pub mod NamesStanding
pub mod Printing
pub mod Noting
pub mod Rows
pub mod OutcomeStanding
pub mod Notes
pub mod Framing
pub mod Standing
pub mod Telling
pub mod Starting
pub mod Brought
pub use Rattle.ev_vat.specs.Vat
pub use Rattle.ev_vat.specs.Rooted
pub use Rattle.ev_vat.specs.Closing
pub use Rattle.ev_vat.specs.Standing as MemberStanding
pub use Rattle.ev_vat.specs.Starting as MemberStarting
pub use Rattle.ev_vat.specs.MemberSteps as MemberSteps
pub use Rattle.ev_vat.specs.Hearing as MemberHearing
