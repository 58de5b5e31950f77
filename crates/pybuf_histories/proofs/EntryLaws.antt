-- Each entry of a legal history is one line, and these are the lines of the whole text.
use Rattle.std.proofs.Common.{◌≡◌, ℕ, List, [], ◌∷◌, ◌++◌, length, map, ◌==◌, refl, ◌∙◌, ap, sym, codes, decimal}
use Rattle.std.specs.List.{list_any, flat_map, AllByRecursion}
use Rattle.std.proofs.lemmas.List.{append_assoc}
use Rattle.pybuf_lemmas.proofs.Booleans.{false_if_not_true}
use Rattle.pybuf_line.specs.Facts.{line_cut, without_last, one_line_both}
use Rattle.pybuf_value.specs.Spelling.{bytes_text, handle_text}
use Rattle.pybuf_command.specs.declared.kinds.Subject.{Subject}
use Rattle.pybuf_command.specs.declared.commands.LocalReply.{LocalReply}
use Rattle.pybuf_command.specs.declared.commands.LocalReply.TheVariants as local
use Rattle.pybuf_command.specs.declared.worlds.Reply.TheVariants as reply
use Rattle.pybuf_state.specs.Exporter.{Exporter, new_exporter}
use Rattle.pybuf_exporter.specs.Laws.{ShownTextsAreOneLine}
use Rattle.pybuf_share.specs.declared.entries.Entry.{Entry}
use Rattle.pybuf_share.specs.History.{step_by, replies_along}
use Rattle.pybuf_line.specs.Parts.{parts_at}
use Rattle.pybuf_line.specs.Lines.{without_empty_last}
use Rattle.pybuf_line.specs.Laws.{IsOneLine, RepliesAreSingle, IsSpelledVerb}
use Rattle.pybuf_histories.specs.Replies.{local_reply_text}
use Rattle.pybuf_histories.specs.Commands.{command_text}
use Rattle.pybuf_histories.specs.Entries.{entry_text, entry_line, last_lines}
use Rattle.pybuf_histories.specs.Laws.{RepliesOfEntriesAreSingle, AreSpelled, EntriesAreSingle, SharedTextHasItsLines}
use Rattle.pybuf_histories.proofs.Single.{decimal_single, bytes_single, subject_single, command_single}

-- ---- replies

-- If a reply shows a text as it is, that text is one line.
abbrev ShowsSingle : LocalReply → Type 0
ShowsSingle r = (text : List ℕ) → r ≡ local.Shown text → IsOneLine text

reply_single : RepliesAreSingle handle_text → (asked : Subject) (r : LocalReply) → ShowsSingle r → IsOneLine (local_reply_text asked r)
reply_single law asked (local.View k) h = decimal_single law k
reply_single law asked (local.Iter k) h = decimal_single law k
reply_single law asked local.Itself h = subject_single law asked
reply_single law asked local.Own h = refl
reply_single law asked (local.Fresh snap) h = bytes_single law snap.content
reply_single law asked local.Ok h = refl
reply_single law asked (local.Item shown) h = law (reply.Item shown) (λ text e. cc)
reply_single law asked (local.Items shape items) h = law (reply.Items shape items) (λ text e. cc)
reply_single law asked (local.Bytes bytes) h = bytes_single law bytes
reply_single law asked (local.Text quoted) h = law (reply.Text quoted) (λ text e. cc)
reply_single law asked (local.Shown shown) h = h shown refl
reply_single law asked (local.Truth truth) h = law (reply.Truth truth) (λ text e. cc)
reply_single law asked local.NotImplementedReply h = refl
reply_single law asked (local.Numbers numbers) h = law (reply.Numbers numbers) (λ text e. cc)
reply_single law asked (local.ByteLists lists) h = law (reply.ByteLists lists) (λ text e. cc)
reply_single law asked local.Stop h = refl
reply_single law asked (local.Refused fault) h = law (reply.Refused fault) (λ text e. cc)

-- ---- entries

entry_single : RepliesAreSingle handle_text → (x : Entry) → IsSpelledVerb x.command.verb → ShowsSingle x.reply → IsOneLine (entry_text x)
unfolding entry_text
entry_single law x spelled shows =
    let command = command_text x.command in
    let replied = local_reply_text x.command.subject x.reply in
    let first = one_line_both (decimal x.session) (codes ": ") (decimal_single law x.session) refl in
    let second = one_line_both (decimal x.session ++ codes ": ") command first (command_single law x.command spelled) in
    let third = one_line_both (decimal x.session ++ codes ": " ++ command) (codes " -> ") second refl in
    one_line_both (decimal x.session ++ codes ": " ++ command ++ codes " -> ") replied third (reply_single law x.command.subject x.reply shows)

-- What an exporter shows is one line.
stepped_single : ShownTextsAreOneLine → (e : Exporter) (x : Entry) → x.reply ≡ (step_by e x.command).1 → ShowsSingle x.reply
stepped_single shown e x same text is =
    false_if_not_true (list_any (λ b. b == 10) text) (shown e x.command.subject x.command.verb x.command.loans text (sym same ∙ is))

replies_single_along : RepliesAreSingle handle_text → ShownTextsAreOneLine → (e : Exporter) (entries : List Entry) →
    map (λ x. x.reply) entries ≡ replies_along e entries → AllByRecursion (λ x. IsOneLine (local_reply_text x.command.subject x.reply)) entries
replies_single_along law shown e [] legal = tt
replies_single_along law shown e (x ∷ entries) legal =
    let same : x.reply ≡ (step_by e x.command).1 = cc in
    let others : map (λ y. y.reply) entries ≡ replies_along (step_by e x.command).0 entries = cc in
    (reply_single law x.command.subject x.reply (stepped_single shown e x same), replies_single_along law shown (step_by e x.command).0 entries others)

pub replies_single : RepliesAreSingle handle_text → ShownTextsAreOneLine → RepliesOfEntriesAreSingle
replies_single law shown k opening entries legal = replies_single_along law shown (new_exporter k opening) entries legal

pub entries_along : RepliesAreSingle handle_text → ShownTextsAreOneLine → (e : Exporter) (entries : List Entry) →
    map (λ x. x.reply) entries ≡ replies_along e entries → AreSpelled entries → AllByRecursion (λ x. IsOneLine (entry_text x)) entries
entries_along law shown e [] legal spelled = tt
entries_along law shown e (x ∷ entries) legal spelled =
    let same : x.reply ≡ (step_by e x.command).1 = cc in
    let others : map (λ y. y.reply) entries ≡ replies_along (step_by e x.command).0 entries = cc in
    (entry_single law x spelled.0 (stepped_single shown e x same), entries_along law shown (step_by e x.command).0 entries others spelled.1)

pub entries_single : RepliesAreSingle handle_text → ShownTextsAreOneLine → EntriesAreSingle
entries_single law shown k opening entries legal spelled = entries_along law shown (new_exporter k opening) entries legal spelled

-- ---- the lines of a text

line_before : (line others rest : List ℕ) → ((line ++ 10 ∷ []) ++ others) ++ rest ≡ line ++ 10 ∷ (others ++ rest)
line_before line others rest = simp append_assoc

entries_cut : (entries : List Entry) (rest : List ℕ) → AllByRecursion (λ x. IsOneLine (entry_text x)) entries →
    parts_at 10 (flat_map entry_line entries ++ rest) ≡ map entry_text entries ++ parts_at 10 rest
entries_cut [] rest h = refl
entries_cut (x ∷ entries) rest h =
    ap (parts_at 10) (line_before (entry_text x) (flat_map entry_line entries) rest)
    ∙ (line_cut (entry_text x) (flat_map entry_line entries ++ rest) h.0
    ∙ ap (λ others. entry_text x ∷ others) (entries_cut entries rest h.1))

two_lines : (first word text : List ℕ) → ((first ++ 10 ∷ word) ++ text) ++ 10 ∷ [] ≡ first ++ 10 ∷ ((word ++ text) ++ 10 ∷ [])
two_lines first word text = simp append_assoc

last_cut : RepliesAreSingle handle_text → (calls : ℕ) (bytes : List ℕ) →
    parts_at 10 (last_lines calls bytes) ≡ ((codes "calls " ++ decimal calls) ∷ (codes "bytes " ++ bytes_text bytes) ∷ []) ++ [] ∷ []
unfolding last_lines
last_cut law calls bytes =
    let first = codes "calls " ++ decimal calls in
    let second = codes "bytes " ++ bytes_text bytes in
    ap (parts_at 10) (two_lines first (codes "bytes ") (bytes_text bytes))
    ∙ (line_cut first (second ++ 10 ∷ []) (decimal_single law calls)
    ∙ ap (λ others. first ∷ others) (line_cut second [] (bytes_single law bytes)))

pub lines_single : RepliesAreSingle handle_text → ShownTextsAreOneLine → SharedTextHasItsLines
lines_single law shown k opening entries e legal spelled =
    let single = entries_single law shown k opening entries legal spelled in
    let last : List (List ℕ) = (codes "calls " ++ decimal (length entries)) ∷ (codes "bytes " ++ bytes_text e.bytes) ∷ [] in
    ap without_empty_last (entries_cut entries (last_lines (length entries) e.bytes) single
    ∙ (ap (λ others. map entry_text entries ++ others) (last_cut law (length entries) e.bytes)
    ∙ sym (append_assoc (map entry_text entries) last ([] ∷ []))))
    ∙ without_last (map entry_text entries ++ last)
