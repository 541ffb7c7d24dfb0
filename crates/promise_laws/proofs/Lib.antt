mod OneList
mod Places
mod Headline
