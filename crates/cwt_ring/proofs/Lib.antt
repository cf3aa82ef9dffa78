mod Lists
mod Trying
mod Successes
mod Asking
