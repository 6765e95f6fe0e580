mod WholeText
mod LentText
