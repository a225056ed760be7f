-- The laws of pieces and of frames.
use Rattle.std.proofs.Common.{◌≡◌, ℕ, zero, suc, ◌+◌, ◌≤◌, Bool, true, false, List, [], ◌∷◌, ◌++◌, length, take, drop, map, fold, refl, sym, ap, ◌∙◌, subst, arith, append_assoc}
use Rattle.std.proofs.lemmas.List.{append-nil, length-drop, length-take-le, take-append-drop, get_or-take}
use Rattle.std.specs.List.{concat}
use Rattle.pva_frames.specs.declared.header.Header.{Header}
use Rattle.pva_frames.specs.Headers.{payload_size}
use Rattle.pva_frames.specs.Frames.{Frame, Cut, size_of, has_frame, front, cut, cut_in}
use Rattle.pva_frames.specs.Messages.{events_of, standing_after, left_from}
use Rattle.pva_frames.specs.Assembled.{Assembled, opening, fed}
use Rattle.pva_frames.proofs.Cutting.{frame_in_front, cut-frame, cut-none, header-take}
use Rattle.pva_frames.proofs.Joins.{fed-join}
use Rattle.pva_frames.specs.Laws.{AnyPieces, IsFrameAt, AreFrames, IsCut, EveryCut}

pieces-from : (pieces : List (List ℕ)) (a : Assembled) (xs : List ℕ) → fold fed (fed a xs) pieces ≡ fed a (xs ++ concat pieces)
pieces-from [] a xs = ap (fed a) (sym (append-nil xs))
pieces-from (p ∷ pieces) a xs =
    ap (λ (b : Assembled). fold fed b pieces) (fed-join a xs p) ∙ pieces-from pieces a (xs ++ p) ∙ ap (fed a) (append_assoc xs p (concat pieces))

opening-fed : fed opening [] ≡ opening
unfolding cut cut_in events_of standing_after left_from
opening-fed = refl

pub any_pieces : AnyPieces
any_pieces pieces = ap (λ (b : Assembled). fold fed b pieces) (sym opening-fed) ∙ pieces-from pieces opening []

-- the frame in front
front-is : (at : ℕ) (xs : List ℕ) → has_frame xs ≡ true → IsFrameAt at (front at xs)
front-is at xs is =
    let f = frame_in_front xs is in
    let same = ap (λ (h : Header). 8 + payload_size h) (header-take (size_of xs) xs (omega arith) f.whole) in
    let long = length-take-le (size_of xs) xs f.whole in record {
      place = refl;
      first = get_or-take (size_of xs) xs 0 0 (omega arith) ∙ f.first;
      whole = long ∙ sym same;
    }

is-cut-in : (n at : ℕ) (xs : List ℕ) → length xs ≤ n → IsCut at xs (cut at xs).frames (cut at xs).held
is-cut-in zero at [] h =
    subst (λ (c : Cut). IsCut at [] c.frames c.held) (sym (cut-none at [] refl)) (record { all = refl; whole = tt; unfinished = refl })
is-cut-in zero at (x ∷ xs) h = absurd (omega arith)
is-cut-in (suc n) at xs h =
    let size = size_of xs in
    let step : (b : Bool) → has_frame xs ≡ b → IsCut at xs (cut at xs).frames (cut at xs).held =
    λ b. elim b as (λ (b : Bool). has_frame xs ≡ b → IsCut at xs (cut at xs).frames (cut at xs).held) [
      | true ↦ λ is.
          let f = frame_in_front xs is in
          let less = length-drop size xs in
          let long = length-take-le size xs f.whole in
          let c = cut (at + size) (drop size xs) in
          let inner = is-cut-in n (at + size) (drop size xs) (omega (arith, less)) in
          subst (λ (d : Cut). IsCut at xs d.frames d.held) (sym (cut-frame at xs is)) (record {
            all = append_assoc (take size xs) (concat (map (λ (frame : Frame). frame.bytes) c.frames)) c.held ∙ ap (λ (l : List ℕ). take size xs ++ l) inner.all ∙ take-append-drop size xs;
            whole = (front-is at xs is, subst (λ (m : ℕ). AreFrames (at + m) c.frames) (sym long) inner.whole);
            unfinished = inner.unfinished;
          })
      | false ↦ λ is. subst (λ (d : Cut). IsCut at xs d.frames d.held) (sym (cut-none at xs is)) (record { all = refl; whole = tt; unfinished = is })
    ] in
    step (has_frame xs) refl

pub every_cut : EveryCut
every_cut at bytes = is-cut-in (length bytes) at bytes (omega arith)
