-- What the server took.
use Rattle.std.proofs.Common.{◌≡◌, ℕ, ℤ, List, length, take, Option, ap, sym, ◌∙◌, arith}
use Rattle.std.proofs.lemmas.List.{take_all}
use Rattle.std.specs.Io.KnownBytes.{append_known}
use Rattle.nv_mirror.specs.Asking.{request_bytes}
use Rattle.nv_mirror.specs.Ends.{TookSome, ServerTook}
use Rattle.nv_mirror.specs.declared.followed.Followed.{Followed}
use Rattle.nv_mirror.specs.declared.followed.Followed.TheVariants.{Ended, Detached, Malformed, Refused, Unfit, ReadFault, ServerFault, OutputFault, NoMemory}
use Rattle.nv_mirror.proofs.Outs.{known_none}

-- the whole request, as a part
took_all : (buffer : ℤ) (x y : Option (List ℕ)) → y ≡ append_known x (request_bytes buffer) → TookSome buffer x y
took_all buffer x y e =
    (length (request_bytes buffer), e ∙ ap (λ (l : List ℕ). append_known x l) (sym (take_all (length (request_bytes buffer)) (request_bytes buffer) (omega arith))))

pub took_request : (f : Followed) (buffer : ℤ) (x y : Option (List ℕ)) → y ≡ append_known x (request_bytes buffer) → ServerTook buffer f x y
took_request Ended buffer x y e = e
took_request Detached buffer x y e = e
took_request (Malformed flaw) buffer x y e = e
took_request (Refused words) buffer x y e = e
took_request (Unfit n) buffer x y e = e
took_request ReadFault buffer x y e = e
took_request ServerFault buffer x y e = took_all buffer x y e
took_request OutputFault buffer x y e = e
took_request NoMemory buffer x y e = took_all buffer x y e

pub took_nothing : (buffer : ℤ) (x : Option (List ℕ)) → TookSome buffer x x
took_nothing buffer x = (0, known_none x)
