mod Gathering
mod Answering
mod Showing
mod Arguments
