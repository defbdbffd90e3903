-- `is_name`: another length; fewer than eight bytes; the last eight differ; 8 to 16 bytes, by a word at each end (`word_ends`); longer ones.
use Rattle.std.proofs.Common.{◌≡◌, ℕ, ◌+◌, ◌-◌, ◌<◌, ◌≤◌, Bool, eqb, length, get_or, sym, ap, ◌∙◌, ap₂, arith}
use Rattle.text.specs.Bytes.{same_bytes}
use Rattle.text.specs.Blocks.{word_at}
use Rattle.entity.specs.Table.{little_endian, part}
use Rattle.entity.specs.Commands.{command_name}
use Rattle.entity.proofs.Lookup.{differ_length, same_part}
use Rattle.table_index.proofs.NameBlocks.{Alike, differ_block, alike_word, word_ends}
use Rattle.table_index.proofs.is_name.Goals as goal
use Rattle.table_index.proofs.is_name.Goals.{After-u32_at-start}

-- the name's bytes are in the pool
inside : (c : After-u32_at-start) → c.u32_at-start.result + length c.args.name.now ≤ length c.args.pool.now
inside c = omega (arith, c.requires, c.u32_at-start.ensures, c.if-from-n.false, c.from.ensures)

-- what is said of these bytes is said of the command's name
said : (c : After-u32_at-start) {x : Bool} → same_bytes (part c.args.pool.now c.u32_at-start.result (length c.args.name.now)) c.args.name.now ≡ x
    → x ≡ same_bytes (command_name c.args.list.now c.args.pool.now c.args.at) c.args.name.now
said c e =
    let a = c.args in
    sym (same_part a.pool.now a.name.now c.u32_at-start.ensures.0 (sym c.if-from-n.false ∙ c.from.ensures) e)

pub returns-then-from-n : goal.returns-then-from-n
returns-then-from-n c =
    let a = c.args in
    let start = little_endian a.list.now (a.at + 1) 4 in
    sym (rw c.from.ensures at (differ_length a.pool.now start a.name.now c.from.result (omega (arith, c.requires, c.from.ensures)) c.if-from-n.true))

pub returns-then-n-lt8 : goal.returns-then-n-lt8
returns-then-n-lt8 c = said (goal.at.returns-then-n-lt8 c).After-u32_at-start (sym c.same_short.ensures)

pub returns-then-word : goal.returns-then-word
returns-then-word c =
    let pool = c.args.pool.now in
    let name = c.args.name.now in
    let start = c.u32_at-start.result in
    let last = length name - 8 in
    let p : start + length name - 8 ≡ start + last = omega (arith, c.if-n-lt8.false) in
    let words : Alike pool (start + last) name last 8 → c.word.result ≡ c.word-2.result =
    λ alike. c.word.ensures ∙ ap (word_at pool) p ∙ alike_word pool name (start + last) last alike ∙ sym c.word-2.ensures in
    said (goal.at.returns-then-word c).After-u32_at-start (differ_block pool start name last 8 (length name) (omega (arith, c.if-n-lt8.false)) (λ alike. c.if-word.true (words alike)))

pub returns-then-n-le16 : goal.returns-then-n-le16
returns-then-n-le16 c =
    let pool = c.args.pool.now in
    let name = c.args.name.now in
    let start = c.u32_at-start.result in
    let least = c.if-n-lt8.false in
    let p : start + length name - 8 ≡ start + (length name - 8) = omega (arith, least) in
    let words = sym c.word.ensures ∙ c.if-word.false ∙ c.word-2.ensures in
    let last = ap (word_at pool) (sym p) ∙ words in
    let pools : (k : ℕ) → get_or pool k 0 < 0x100 = λ k. omega (arith, c.type_inv.pool k) in
    let names : (k : ℕ) → get_or name k 0 < 0x100 = λ k. omega (arith, c.type_inv.name k) in
    let named = (goal.at.returns-then-n-le16 c).After-u32_at-start in
    let ends = word_ends pool start name pools names (inside named) least (omega (arith, c.if-n-le16.true)) last in
    said named (sym (ap₂ eqb c.word-then-n-le16.ensures c.word-then-n-le16-2.ensures ∙ ends))

pub returns : goal.returns
returns c = said (goal.at.returns c).After-u32_at-start (sym c.same_long.ensures)
