pub mod Connected
