mod AxisLemmas
mod PartLemmas
mod PictureLemmas
