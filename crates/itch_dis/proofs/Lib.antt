mod TextParts
mod SoFar
mod Extended
