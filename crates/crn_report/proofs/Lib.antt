mod Costs
mod FiguresOf
mod OneReport
mod Ratios
