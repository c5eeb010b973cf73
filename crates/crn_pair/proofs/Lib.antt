mod Comparable
mod Estimates
mod Gathering
mod LowestTerms
mod Products
mod Stripped
mod Unique
