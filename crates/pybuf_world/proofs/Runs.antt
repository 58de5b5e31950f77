-- A run goes on by one command.
use Rattle.std.proofs.Common.{◌≡◌, ℕ, ◌+◌, ◌<◌, List, [], ◌∷◌, ◌++◌, length, take, get_or, ap, sym, ◌∙◌, append_assoc}
use Rattle.std.proofs.lemmas.List.{take_more}
use Rattle.pybuf_world.specs.Facts.{after_both, replies_of_both}
use Rattle.pybuf_command.specs.declared.worlds.Command.{Command}
use Rattle.pybuf_command.specs.declared.worlds.Reply.{Reply}
use Rattle.pybuf_world.specs.World.{World, wstep, world_after_all, replies_of}

-- The world and the replies are those of the commands so far.
pub record IsRun (old : World) (commands : List Command) (new : World) (before replies : List Reply) : Type 0 where
  pub world : new ≡ world_after_all old commands
  pub replied : replies ≡ before ++ replies_of old commands

-- the world after one command more
after_one_more : (w : World) (cs : List Command) (i : ℕ) (c : Command) → i < length cs → c ≡ get_or cs i c → world_after_all w (take (i + 1) cs) ≡ (wstep (world_after_all w (take i cs)) c).0
after_one_more w cs i c below is =
    ap (world_after_all w) (take_more cs i c below ∙ ap (λ x. take i cs ++ x ∷ []) (sym is)) ∙ after_both w (take i cs) (c ∷ [])

replies_of_one_more : (w : World) (cs : List Command) (i : ℕ) (c : Command) → i < length cs → c ≡ get_or cs i c → replies_of w (take (i + 1) cs) ≡ replies_of w (take i cs) ++ (wstep (world_after_all w (take i cs)) c).1 ∷ []
replies_of_one_more w cs i c below is =
    ap (replies_of w) (take_more cs i c below ∙ ap (λ x. take i cs ++ x ∷ []) (sym is)) ∙ replies_of_both w (take i cs) (c ∷ [])

-- A run goes on by one command.
pub one_more : (old w after : World) (cs : List Command) (i : ℕ) (c : Command) (r : Reply) (before rs more : List Reply)
    → IsRun old (take i cs) w before rs → i < length cs → c ≡ get_or cs i c → wstep w c ≡ (after, r) → more ≡ rs ++ r ∷ [] → IsRun old (take (i + 1) cs) after before more
one_more old w after cs i c r before rs more run below at stepped pushed =
    let here : wstep (world_after_all old (take i cs)) c ≡ (after, r) = ap (λ (x : World). wstep x c) (sym run.world) ∙ stepped in
    let world : (wstep (world_after_all old (take i cs)) c).0 ≡ after = ap (λ (p : World × Reply). p.0) here in
    let reply : (wstep (world_after_all old (take i cs)) c).1 ≡ r = ap (λ (p : World × Reply). p.1) here in
    record {
      world = sym (after_one_more old cs i c below at ∙ world);
      replied =
          pushed ∙ ap (λ (xs : List Reply). xs ++ r ∷ []) run.replied
          ∙ append_assoc before (replies_of old (take i cs)) (r ∷ [])
          ∙ ap (λ (x : Reply). before ++ (replies_of old (take i cs) ++ x ∷ [])) (sym reply)
          ∙ ap (λ (xs : List Reply). before ++ xs) (sym (replies_of_one_more old cs i c below at));
    }
