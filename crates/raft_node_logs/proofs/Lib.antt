mod Files
mod Images
