pub mod Introduction
