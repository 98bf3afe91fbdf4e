pub mod DoneLemmas
pub mod QuietLemmas
pub mod StepLemmas
pub mod HostileLemmas
pub mod AdmittedPlay
