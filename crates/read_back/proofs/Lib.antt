mod Alike
mod FilesBack
mod Told
