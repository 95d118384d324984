-- inside: how far a division is, child by child. Only private calls cite this.
use Rattle.std.specs.Prelude.{◌≡◌, ℕ, ◌+◌, ◌-◌, ◌≤◌, ◌<◌, List, length, slice_index_or, filter, if◌then◌else◌}
use Rattle.std.specs.Int.{div_ceil}
use Rattle.nv_layout.specs.Division.{Child, wishes, is_modest, need, total, within, wishes_granted}
use Rattle.nv_layout.specs.declared.division.Rooms.{Rooms}

-- the child at a place
abbrev pub child_at : List Child → ℕ → Child
child_at cs i = slice_index_or cs i (record { least = 0; wish = 0 })

-- the rooms of children before any is sized, where the others share so much
abbrev pub rooms_with : ℕ → ℕ → List Child → Rooms
rooms_with room shared cs = record {
  wish_room = room;
  wish_need = need (filter wishes cs);
  other_need = need (filter is_modest cs);
  share_room = shared;
  share_need = need (filter is_modest cs);
  sharers = length (filter is_modest cs);
}

-- what children with a wish leave of some room
abbrev pub room_left : ℕ → List Child → ℕ
room_left room cs =
    room - total (wishes_granted (need (filter is_modest cs)) room (filter wishes cs))

-- the rooms of children before any is sized
abbrev pub rooms_of : ℕ → List Child → Rooms
rooms_of room cs = rooms_with room (room_left room cs) cs

-- what the next child gets where it wishes, and where it doesn't
abbrev pub wish_size : Rooms → Child → ℕ
wish_size r c = within c.least (r.wish_room - ((r.other_need + r.wish_need) - c.least)) c.wish

abbrev pub share_size : Rooms → Child → ℕ
share_size r c =
    within c.least (r.share_room - (r.share_need - c.least)) (div_ceil r.share_room r.sharers)

-- what the next child gets
abbrev pub next_size : Rooms → Child → ℕ
next_size r c = if wishes c then wish_size r c else share_size r c

-- the rooms behind it
abbrev pub behind_wish : Rooms → Child → Rooms
behind_wish r c =
    record r { wish_room = r.wish_room - wish_size r c; wish_need = r.wish_need - c.least }

abbrev pub behind_share : Rooms → Child → Rooms
behind_share r c = record r {
  share_room = r.share_room - share_size r c;
  share_need = r.share_need - c.least;
  sharers = r.sharers - 1;
}

abbrev pub rooms_behind : Rooms → Child → Rooms
rooms_behind r c = if wishes c then behind_wish r c else behind_share r c

-- rooms that are large enough for the next child
pub record CanTake (r : Rooms) (c : Child) : Type 0 where
  pub wish : 0 < c.wish → (c.least ≤ r.wish_need) × (r.other_need + r.wish_need ≤ r.wish_room)
  pub share : c.wish ≡ 0 → (c.least ≤ r.share_need) × (r.share_need ≤ r.share_room)
      × (1 ≤ r.sharers)
