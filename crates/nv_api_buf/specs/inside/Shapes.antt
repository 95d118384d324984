-- inside: events as the table of the code has them.
use Prim.Native.String.{String}
use Rattle.std.specs.Prelude.{ℕ, List, [], ◌∷◌, ◌++◌, map, codes}
use Rattle.nv_value.specs.Content.{Tree, text}
use Rattle.nv_model.specs.Answering.{array_of, natural, key_value, dict_of}
use Rattle.nv_api_buf.specs.declared.told.Told.{Told}

-- an event: its name, and the type and the name of each parameter
pub record ToldForm : Type 0 where
  pub name : List ℕ
  pub parameters : List (List ℕ × List ℕ)

-- a row of the code's table
abbrev pub form_of_row : Told → ToldForm
form_of_row t = record {
  name = t.name.now;
  parameters = map (λ p. (p.0.now, p.1.now)) t.parameters.now;
}

-- a parameter and an event of such a shape
abbrev pub parameter_shaped : List ℕ × List ℕ → Tree
parameter_shaped p = array_of (text p.0 ∷ text p.1 ∷ [])

abbrev pub event_shaped : ToldForm → Tree
event_shaped e =
    dict_of (key_value "name" (text e.name) ∷ key_value "since" (natural 1)
    ∷ key_value "parameters" (array_of (map parameter_shaped e.parameters)) ∷ [])

-- the shapes of the events
abbrev shape : String → List (List ℕ × List ℕ) → ToldForm
shape name parameters =
    record { name = codes name; parameters = parameters }

abbrev of_type : String → List String → List (List ℕ × List ℕ)
of_type kind names = map (λ name. (codes kind, codes name)) names

abbrev pub event_shapes : List ToldForm
event_shapes =
    shape "grid_resize" (of_type "Integer" ("grid" ∷ "width" ∷ "height" ∷ []))
    ∷ shape "default_colors_set"
    (of_type "Integer" ("rgb_fg" ∷ "rgb_bg" ∷ "rgb_sp" ∷ "cterm_fg" ∷ "cterm_bg" ∷ []))
    ∷ shape "hl_attr_define" (of_type "Integer" ("id" ∷ [])
    ++ of_type "Dict" ("rgb_attr" ∷ "cterm_attr" ∷ []) ++ of_type "Array" ("info" ∷ []))
    ∷ shape "grid_clear" (of_type "Integer" ("grid" ∷ []))
    ∷ shape "grid_scroll" (of_type "Integer"
    ("grid" ∷ "top" ∷ "bot" ∷ "left" ∷ "right" ∷ "rows" ∷ "cols" ∷ []))
    ∷ shape "grid_line" (of_type "Integer" ("grid" ∷ "row" ∷ "col_start" ∷ [])
    ++ of_type "Array" ("cells" ∷ []) ++ of_type "Boolean" ("wrap" ∷ []))
    ∷ shape "grid_cursor_goto" (of_type "Integer" ("grid" ∷ "row" ∷ "col" ∷ []))
    ∷ shape "flush" []
    ∷ []
