mod Linking
mod Exact
