-- The body of a response, as far as it came.
use Rattle.std.specs.Prelude.{ℕ, ◌-◌, ◌==◌, Bool, if◌then◌else◌, List, [], ◌∷◌, ◌++◌, length, take, drop}
use Rattle.outside_hosted.specs.declared.body.HostBody.{HostBody}
use Rattle.outside_hosted.specs.declared.events.HostFrame.{HostFrame}
use Rattle.outside_hosted.specs.declared.events.HostFrame.TheVariants.{Data, Trailers, End, Broken}

-- a body of which nothing came yet: 16384 bytes of its data are taken
abbrev pub no_body : HostBody
no_body = record { frames = []; room = 16384 }

-- with this piece behind what came, if there are bytes in it
abbrev pub with_piece : List ℕ → HostBody → HostBody
with_piece piece body =
    if length piece == 0 then body
    else record { frames = body.frames ++ Data piece ∷ []; room = body.room - length piece }

-- with as many of these bytes as there is room for
abbrev pub with_data : List ℕ → HostBody → HostBody
with_data bytes body = with_piece (take body.room bytes) body

-- with one frame more
abbrev pub with_frame : HostFrame → HostBody → HostBody
with_frame (Data bytes) body = with_data bytes body
with_frame Trailers body = record { frames = body.frames ++ Trailers ∷ []; room = body.room }
with_frame End body = record { frames = body.frames ++ End ∷ []; room = body.room }
with_frame (Broken fault) body = record { frames = body.frames ++ Broken fault ∷ []; room = body.room }

-- with a frame, if it is of this body
abbrev pub with_own : Bool → HostFrame → HostBody → HostBody
with_own is_own frame body = if is_own then with_frame frame body else body

-- without the next frame
abbrev pub behind : HostBody → HostBody
behind body = record { frames = drop 1 body.frames; room = body.room }
