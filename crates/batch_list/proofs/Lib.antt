mod Lists
mod Plans
