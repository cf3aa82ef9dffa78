mod Lists
mod MapMembers
mod LayerOrder
mod NonceOrder
mod Refused
