mod Lists
mod Linked
mod Wovens
mod Nears
