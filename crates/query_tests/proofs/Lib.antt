mod Crossed
mod Documents
mod Grown
