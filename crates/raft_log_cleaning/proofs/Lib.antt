mod Judged
mod Named
mod Behind
