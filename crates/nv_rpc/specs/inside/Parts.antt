-- inside: the parts of a request.
use Rattle.nv_value.specs.Content.{Tree, Trees, no_more, one}

-- Four values in a row.
abbrev pub four : Tree → Tree → Tree → Tree → Trees
four a b c d = one a (one b (one c (one d no_more)))
