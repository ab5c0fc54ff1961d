mod OwnLines
mod WhyFiles
