pub mod Args
