mod Writing
mod Finding
mod Agreeing
