pub mod Places
pub mod Parts
pub mod Shown
pub mod Engine
pub mod Times
pub mod Before
