mod Dashing
mod Hurrying
