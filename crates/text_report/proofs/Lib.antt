mod WholeReport
mod LentReport
