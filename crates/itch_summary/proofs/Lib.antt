mod OneRefusedMore
mod SummaryLines
