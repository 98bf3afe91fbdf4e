pub mod Tales
