mod Judged
mod Lists
mod Reading
