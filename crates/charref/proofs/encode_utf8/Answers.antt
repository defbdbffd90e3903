-- `charref::encode_utf8` meets its contract: in each branch the stores are the bytes of `encode` one by one, and they fit. Assumes nothing.
use mathlib.Core.List.{[], ◌∷◌}
use Prim.Native.Nat.{◌+◌, ◌/◌, ◌%◌}
use native.Mathlib.Omega.{arith}
use Rattle.charref.proofs.Encoding.{encode_1, encode_2, encode_3, encode_4, encode_at_least, least_2, least_3, least_4, room, written}
use Rattle.charref.proofs.encode_utf8.Goals as goal

pub bounds-out-0 : goal.bounds-out-0
bounds-out-0 c =
    let n = c.args.n in
    room n 0 [] c.args.out.now c.requires.1 (encode_at_least n)

pub returns-then-n-lt128 : goal.returns-then-n-lt128
returns-then-n-lt128 c =
    let n = c.args.n in
    written n (n ∷ []) c.args.out.now (encode_1 n c.if-n-lt128.true) c.requires.1

pub bounds-out-0-then-n-lt2048 : goal.bounds-out-0-then-n-lt2048
bounds-out-0-then-n-lt2048 c =
    let given = c.args in
    let n = given.n in
    room n 0 [] given.out.now c.requires.1 (omega (arith, least_2 n c.if-n-lt128.false))

pub bounds-out-1 : goal.bounds-out-1
bounds-out-1 c =
    let given = c.args in
    let n = given.n in
    room n 1 ((0xC0 + n / 64) ∷ []) given.out.now c.requires.1 (least_2 n c.if-n-lt128.false)

pub returns-then-n-lt2048 : goal.returns-then-n-lt2048
returns-then-n-lt2048 c =
    let given = c.args in
    let n = given.n in
    written n ((0xC0 + n / 64) ∷ (0x80 + n % 64) ∷ []) given.out.now (encode_2 n c.if-n-lt128.false c.if-n-lt2048.true) c.requires.1

pub bounds-out-0-then-n-lt65536 : goal.bounds-out-0-then-n-lt65536
bounds-out-0-then-n-lt65536 c =
    let given = c.args in
    let n = given.n in
    room n 0 [] given.out.now c.requires.1 (omega (arith, least_3 n c.if-n-lt2048.false))

pub bounds-out-1-then-n-lt65536 : goal.bounds-out-1-then-n-lt65536
bounds-out-1-then-n-lt65536 c =
    let given = c.args in
    let n = given.n in
    room n 1 ((0xE0 + n / 4096) ∷ []) given.out.now c.requires.1 (omega (arith, least_3 n c.if-n-lt2048.false))

pub bounds-out-2 : goal.bounds-out-2
bounds-out-2 c =
    let given = c.args in
    let n = given.n in
    room n 2 ((0xE0 + n / 4096) ∷ (0x80 + n / 64 % 64) ∷ []) given.out.now c.requires.1 (least_3 n c.if-n-lt2048.false)

pub returns-then-n-lt65536 : goal.returns-then-n-lt65536
returns-then-n-lt65536 c =
    let given = c.args in
    let n = given.n in
    written n ((0xE0 + n / 4096) ∷ (0x80 + n / 64 % 64) ∷ (0x80 + n % 64) ∷ []) given.out.now (encode_3 n c.if-n-lt2048.false c.if-n-lt65536.true) c.requires.1

pub bounds-out-0-2 : goal.bounds-out-0-2
bounds-out-0-2 c =
    let given = c.args in
    let n = given.n in
    room n 0 [] given.out.now c.requires.1 (omega (arith, least_4 n c.if-n-lt65536.false))

pub bounds-out-1-2 : goal.bounds-out-1-2
bounds-out-1-2 c =
    let given = c.args in
    let n = given.n in
    room n 1 ((0xF0 + n / 262144) ∷ []) given.out.now c.requires.1 (omega (arith, least_4 n c.if-n-lt65536.false))

pub bounds-out-2-2 : goal.bounds-out-2-2
bounds-out-2-2 c =
    let given = c.args in
    let n = given.n in
    room n 2 ((0xF0 + n / 262144) ∷ (0x80 + n / 4096 % 64) ∷ []) given.out.now c.requires.1 (omega (arith, least_4 n c.if-n-lt65536.false))

pub bounds-out-3 : goal.bounds-out-3
bounds-out-3 c =
    let given = c.args in
    let n = given.n in
    room n 3 ((0xF0 + n / 262144) ∷ (0x80 + n / 4096 % 64) ∷ (0x80 + n / 64 % 64) ∷ []) given.out.now c.requires.1 (least_4 n c.if-n-lt65536.false)

pub returns : goal.returns
returns c =
    let given = c.args in
    let n = given.n in
    written n ((0xF0 + n / 262144) ∷ (0x80 + n / 4096 % 64) ∷ (0x80 + n / 64 % 64) ∷ (0x80 + n % 64) ∷ []) given.out.now (encode_4 n c.if-n-lt65536.false) c.requires.1
