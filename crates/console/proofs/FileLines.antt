-- The lines of run files: with one file more of a channel, and with one channel more.
use Rattle.std.specs.Prelude.{◌≡◌, ℕ, suc, ◌+◌, ◌<◌, List, [], ◌∷◌, ◌++◌, length, take, get_or}
use Rattle.std.proofs.Common.{ap, sym, ◌∙◌, arith, append_assoc, append-nil}
use Rattle.std.proofs.lemmas.Grind.{flat_map-append}
use Rattle.std.proofs.lemmas.List.{take_more}
use Rattle.session_runs.specs.declared.records.ChannelFiles.{ChannelFiles}
use Rattle.session_runs.specs.FileRows.{FileRow, channel_rows, file_row, file_rows, rows_below}
use Rattle.console.specs.Console.{file_line, file_lines}

lines_joined : (one other : List FileRow) → file_lines (one ++ other) ≡ file_lines one ++ file_lines other
lines_joined one other = flat_map-append file_line one other

pub one_file_more : (before : List ℕ) (run : ℕ) (files : ChannelFiles) (n : ℕ)
    → (before ++ file_lines (rows_below run files n)) ++ file_line (file_row run files n) ≡ before ++ file_lines (rows_below run files (n + 1))
one_file_more before run files n =
    let next : n + 1 ≡ suc n = omega arith in
    let row = file_row run files n in
    append_assoc before (file_lines (rows_below run files n)) (file_line row)
    ∙ ap (λ (l : List ℕ). before ++ l)
    (ap (λ (l : List ℕ). file_lines (rows_below run files n) ++ l) (sym (append-nil (file_line row)))
    ∙ (sym (lines_joined (rows_below run files n) (row ∷ []))
    ∙ ap (λ (m : ℕ). file_lines (rows_below run files m)) (sym next)))

rows_joined : (run : ℕ) (channels : List ChannelFiles) (channel : ChannelFiles) → file_rows run (channels ++ channel ∷ []) ≡ file_rows run channels ++ channel_rows run channel
rows_joined run channels channel =
    flat_map-append (channel_rows run) channels (channel ∷ [])
    ∙ ap (λ (l : List FileRow). file_rows run channels ++ l) (append-nil (channel_rows run channel))

pub one_channel_more : (before : List ℕ) (run : ℕ) (channels : List ChannelFiles) (i : ℕ) (channel : ChannelFiles) → i < length channels → channel ≡ get_or channels i channel
    → (before ++ file_lines (file_rows run (take i channels))) ++ file_lines (channel_rows run channel) ≡ before ++ file_lines (file_rows run (take (i + 1) channels))
one_channel_more before run channels i channel within is =
    let rows = file_rows run (take i channels) in
    let more : file_rows run (take (i + 1) channels) ≡ rows ++ channel_rows run channel =
    ap (file_rows run) (take_more channels i channel within ∙ ap (λ (c : ChannelFiles). take i channels ++ c ∷ []) (sym is))
    ∙ rows_joined run (take i channels) channel in
    append_assoc before (file_lines rows) (file_lines (channel_rows run channel))
    ∙ ap (λ (l : List ℕ). before ++ l)
    (sym (lines_joined rows (channel_rows run channel)) ∙ ap file_lines (sym more))
