pub mod NamedDevices
