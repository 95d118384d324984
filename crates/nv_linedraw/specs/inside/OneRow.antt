-- inside: cells that are given one attribute.
use Rattle.nv_hl.specs.declared.attribute.Attr.{Attr}
use Rattle.nv_hl.specs.declared.cell.Cell.{Cell}
use Rattle.nv_hl.specs.Cells.{cell_of}

-- a cell with another attribute
abbrev pub recoloured : Attr → Cell → Cell
recoloured attr c = cell_of c.text attr
