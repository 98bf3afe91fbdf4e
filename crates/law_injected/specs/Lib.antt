pub mod HostileRuns
