mod Comments
mod Overviews
