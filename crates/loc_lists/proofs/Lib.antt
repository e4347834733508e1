mod Expressions
mod Items
mod Whole
