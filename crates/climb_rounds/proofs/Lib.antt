mod Lists
mod Ranking
