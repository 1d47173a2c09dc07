-- Document 02, L2, by example: lists of tokens, each with its image or its refusal. The images are what the unchanged token_stream.rs
-- makes of the tokens, components turned round; they are written as the numbers of header, tables and records, and the text.
use Rattle.std.specs.Prelude.{◌≡◌, refl, ◌∷◌, ◌++◌}
use Rattle.definition.specs.Prelude.{ℕ, zero, suc, String, List, [], map}
use Rattle.definition.specs.Basics.{Result, ok, refused, refusal_of, ◌>>=◌, joined, ascii}
use Rattle.definition.specs.Tree.{u32}
use Rattle.definition.specs.Listing.{listing}
use Rattle.definition.specs.Run.{under, run}
use Rattle.definition.specs.Tokens.{token_image, tokens_on}
use Rattle.definition.specs.Compute.{computed}

-- a token: kind, text start, length
abbrev t : ℕ → ℕ → ℕ → List ℕ
t k s n = u32 k ++ u32 s ++ u32 n

-- groups' starts and lengths are anything
abbrev group : ℕ → List ℕ
group k = t k 4294967295 4294967295

abbrev closed : List ℕ
closed = group 7

unfoldable pub times : ℕ → List ℕ → List ℕ
times zero l = []
times (suc n) l = l ++ times n l

abbrev image : List ℕ → String → Result (List ℕ)
image numbers text = ok (joined (map u32 numbers) ++ ascii text)

abbrev no : ℕ → Result (List ℕ)
no n = refused (refusal_of n 0 0)

pub record Case : Type 0 where
  pub list : List ℕ
  pub text : String
  pub area : ℕ
  pub comes : Result (List ℕ)

-- `a, b; c`
abbrev three : List ℕ
three = t 0 0 1 ++ t 1 2 1 ++ t 0 4 1 ++ t 1 6 1 ++ t 0 8 1

-- `10u4, 5u4; rec[..8]`
abbrev listed : List ℕ
listed = t 2 0 4 ++ t 1 4 1 ++ t 2 6 3 ++ t 1 9 1 ++ t 0 11 3 ++ group 5 ++ t 1 15 1 ++ t 1 16 1 ++ t 2 17 1 ++ closed

unfoldable pub accepted : List Case
accepted =
    -- `a`
    record { list = t 0 0 1; text = "a"; area = 65; comes = image (1 ∷ 1 ∷ 1 ∷ 1 ∷ 0 ∷ 40 ∷ 44 ∷ 52 ∷ 64 ∷ 65 ∷ 1 ∷ 1 ∷ 0 ∷ 0 ∷ 0 ∷ 1 ∷ []) "a" }
    -- `a , b ; c`: "An added step turns each concatenation least significant first"
    ∷ record {
      list = three;
      text = "a , b ; c";
      area = 111;
      comes =
          image (2 ∷ 3 ∷ 3 ∷ 3 ∷ 0 ∷ 40 ∷ 48 ∷ 72 ∷ 108 ∷ 111 ∷ 2 ∷ 1 ∷ 1 ∷ 0 ∷ 1 ∷ 0 ∷ 1 ∷ 0 ∷ 0 ∷ 0 ∷ 1 ∷ 0 ∷ 1 ∷ 1 ∷ 0 ∷ 2 ∷ 1 ∷ []) "bac";
    }
    -- `()`
    ∷ record {
      list = group 4 ++ closed;
      text = "";
      area = 78;
      comes = image (1 ∷ 1 ∷ 2 ∷ 2 ∷ 0 ∷ 40 ∷ 44 ∷ 52 ∷ 76 ∷ 78 ∷ 1 ∷ 2 ∷ 0 ∷ 2 ∷ 0 ∷ 2 ∷ 5 ∷ 1 ∷ 1 ∷ []) "()";
    }
    -- a group without delimiters, `x y` in it, and `z`
    ∷ record {
      list = group 3 ++ t 0 0 1 ++ t 0 2 1 ++ closed ++ t 0 4 1;
      text = "x y z";
      area = 106;
      comes =
          image (1 ∷ 1 ∷ 4 ∷ 6 ∷ 0 ∷ 40 ∷ 44 ∷ 52 ∷ 100 ∷ 106 ∷ 1 ∷ 4 ∷ 0 ∷ 1 ∷ 0 ∷ 3 ∷ 0 ∷ 1 ∷ 1 ∷ 5 ∷ 4 ∷ 1 ∷ 0 ∷ 5 ∷ 1 ∷ []) " x y z";
    }
    -- an empty group without delimiters is no empty component
    ∷ record {
      list = group 3 ++ closed;
      text = "";
      area = 78;
      comes = image (1 ∷ 1 ∷ 2 ∷ 2 ∷ 0 ∷ 40 ∷ 44 ∷ 52 ∷ 76 ∷ 78 ∷ 1 ∷ 2 ∷ 0 ∷ 1 ∷ 0 ∷ 2 ∷ 5 ∷ 1 ∷ 1 ∷ []) "  ";
    }
    -- `a b (c) d e`: "a run of identifiers becomes one text joined by spaces"
    ∷ record {
      list = t 0 0 1 ++ t 0 2 1 ++ group 4 ++ t 0 5 1 ++ closed ++ t 0 8 1 ++ t 0 10 1;
      text = "a b (c) d e";
      area = 121;
      comes =
          image (1 ∷ 1 ∷ 5 ∷ 9 ∷ 0 ∷ 40 ∷ 44 ∷ 52 ∷ 112 ∷ 121 ∷ 1 ∷ 5 ∷ 0 ∷ 0 ∷ 0 ∷ 1 ∷ 2 ∷ 3 ∷ 3 ∷ 0 ∷ 4 ∷ 1 ∷ 5 ∷ 5 ∷ 1 ∷ 0 ∷ 6 ∷ 1 ∷ [])
          "a b(c)d e";
    }
    -- `5u8 a b 6 c`: a literal is joined to nothing
    ∷ record {
      list = t 2 0 3 ++ t 0 4 1 ++ t 0 6 1 ++ t 2 8 1 ++ t 0 10 1;
      text = "5u8 a b 6 c";
      area = 108;
      comes =
          image (1 ∷ 1 ∷ 4 ∷ 8 ∷ 0 ∷ 40 ∷ 44 ∷ 52 ∷ 100 ∷ 108 ∷ 1 ∷ 4 ∷ 0 ∷ 0 ∷ 0 ∷ 1 ∷ 0 ∷ 3 ∷ 1 ∷ 0 ∷ 6 ∷ 1 ∷ 0 ∷ 7 ∷ 1 ∷ []) "5u8a b6c";
    }
    -- `f(a, b; c)`: nothing in a group divides
    ∷ record {
      list = t 0 0 1 ++ group 4 ++ t 0 2 1 ++ t 1 3 1 ++ t 0 5 1 ++ t 1 6 1 ++ t 0 8 1 ++ closed;
      text = "f(a, b; c)";
      area = 156;
      comes =
          image (1 ∷ 1 ∷ 8 ∷ 8 ∷ 0 ∷ 40 ∷ 44 ∷ 52 ∷ 148 ∷ 156 ∷ 1 ∷ 8 ∷ 0 ∷ 0 ∷ 0 ∷ 1 ∷ 2 ∷ 1 ∷ 7 ∷ 0 ∷ 2 ∷ 1 ∷ 0 ∷ 3 ∷ 1 ∷ 0 ∷ 4 ∷ 1 ∷ 0 ∷ 5 ∷ 1
          ∷ 0 ∷ 6 ∷ 1 ∷ 5 ∷ 7 ∷ 1 ∷ [])
          "f(a,b;c)";
    }
    -- `x as usize[(n as u16+1)..=7]`
    ∷ record {
      list =
          t 0 0 1 ++ t 0 2 2 ++ t 0 5 5 ++ group 5 ++ group 4 ++ t 0 12 1 ++ t 0 14 2 ++ t 0 17 3 ++ t 1 20 1 ++ t 2 21 1 ++ closed
          ++ t 1 23 1 ++ t 1 24 1 ++ t 1 25 1 ++ t 2 26 1 ++ closed;
      text = "x as usize[(n as u16+1)..=7]";
      area = 224;
      comes =
          image (1 ∷ 1 ∷ 12 ∷ 28 ∷ 0 ∷ 40 ∷ 44 ∷ 52 ∷ 196 ∷ 224 ∷ 1 ∷ 12 ∷ 0 ∷ 0 ∷ 0 ∷ 1 ∷ 3 ∷ 10 ∷ 11 ∷ 2 ∷ 11 ∷ 5 ∷ 0 ∷ 12 ∷ 1 ∷ 0 ∷ 20 ∷ 1
          ∷ 0 ∷ 21 ∷ 1 ∷ 5 ∷ 22 ∷ 1 ∷ 0 ∷ 23 ∷ 1 ∷ 0 ∷ 24 ∷ 1 ∷ 0 ∷ 25 ∷ 1 ∷ 0 ∷ 26 ∷ 1 ∷ 5 ∷ 27 ∷ 1 ∷ [])
          "x as usize[(n as u16+1)..=7]";
    }
    -- document 01's line, without its literals' bits: "literal widths 0"
    ∷ record {
      list = listed;
      text = "10u4, 5u4; rec[..8]";
      area = 183;
      comes =
          image (2 ∷ 3 ∷ 8 ∷ 15 ∷ 0 ∷ 40 ∷ 48 ∷ 72 ∷ 168 ∷ 183 ∷ 2 ∷ 1 ∷ 1 ∷ 0 ∷ 1 ∷ 0 ∷ 6 ∷ 0 ∷ 0 ∷ 0 ∷ 1 ∷ 0 ∷ 3 ∷ 1 ∷ 0 ∷ 7 ∷ 1 ∷ 3 ∷ 10 ∷ 5
          ∷ 0 ∷ 11 ∷ 1 ∷ 0 ∷ 12 ∷ 1 ∷ 0 ∷ 13 ∷ 1 ∷ 5 ∷ 14 ∷ 1 ∷ [])
          "5u410u4rec[..8]";
    }
    -- `'q, "s,;"`: the comma in the string divides nothing
    ∷ record {
      list = t 1 0 1 ++ t 0 1 1 ++ t 1 2 1 ++ t 2 4 5;
      text = "'q, \"s,;\"";
      area = 103;
      comes = image (1 ∷ 2 ∷ 3 ∷ 7 ∷ 0 ∷ 40 ∷ 44 ∷ 60 ∷ 96 ∷ 103 ∷ 2 ∷ 1 ∷ 0 ∷ 2 ∷ 0 ∷ 0 ∷ 0 ∷ 1 ∷ 0 ∷ 5 ∷ 1 ∷ 0 ∷ 6 ∷ 1 ∷ []) "\"s,;\"'q";
    }
    ∷ []

unfoldable pub refusals : List Case
refusals =
    -- 51: no token; `a,`, `,a`, `;a`, `a;`, `a,,b`
    record { list = []; text = ""; area = 1000; comes = no 51 }
    ∷ record { list = t 0 0 1 ++ t 1 1 1; text = "a,"; area = 1000; comes = no 51 }
    ∷ record { list = t 1 1 1 ++ t 0 0 1; text = "a,"; area = 1000; comes = no 51 }
    ∷ record { list = t 1 1 1 ++ t 0 0 1; text = "a;"; area = 1000; comes = no 51 }
    ∷ record { list = t 0 0 1 ++ t 1 1 1; text = "a;"; area = 1000; comes = no 51 }
    ∷ record { list = t 0 0 1 ++ t 1 1 1 ++ t 1 1 1 ++ t 0 0 1; text = "a,"; area = 1000; comes = no 51 }
    -- 50: "a list not in twelves", "unknown token", "ill-nested", "an empty text", "one outside the lent text", "punctuation not of one byte"
    ∷ record { list = 0 ∷ []; text = ""; area = 1000; comes = no 50 }
    ∷ record { list = t 8 0 1; text = "a,"; area = 1000; comes = no 50 }
    ∷ record { list = closed; text = "a,"; area = 1000; comes = no 50 }
    ∷ record { list = group 4; text = "a,"; area = 1000; comes = no 50 }
    ∷ record { list = t 0 0 0; text = "a,"; area = 1000; comes = no 50 }
    ∷ record { list = t 0 1 2; text = "a,"; area = 1000; comes = no 50 }
    ∷ record { list = t 0 4294967295 1; text = "a,"; area = 1000; comes = no 50 }
    ∷ record { list = t 1 0 2; text = "a,"; area = 1000; comes = no 50 }
    -- 50 before 51, over the whole list
    ∷ record { list = t 1 1 1 ++ t 8 0 1; text = "a,"; area = 1000; comes = no 50 }
    -- 53
    ∷ record { list = t 0 0 1; text = "a"; area = 64; comes = no 53 }
    -- 33 groups round `a`; one closer short of that; 18 concatenations; the last of them empty
    ∷ record { list = times 33 (group 4) ++ t 0 0 1 ++ times 33 closed; text = "a"; area = 5000; comes = no 52 }
    ∷ record { list = times 33 (group 4) ++ t 0 0 1 ++ times 32 closed; text = "a"; area = 5000; comes = no 50 }
    ∷ record { list = times 17 (t 0 0 1 ++ t 1 1 1) ++ t 0 0 1; text = "a;"; area = 5000; comes = no 52 }
    ∷ record { list = times 17 (t 0 0 1 ++ t 1 1 1); text = "a;"; area = 5000; comes = no 51 }
    -- 52 before 53
    ∷ record { list = times 17 (t 0 0 1 ++ t 1 1 1) ++ t 0 0 1; text = "a;"; area = 0; comes = no 52 }
    ∷ []

abbrev pub came : Case → Result (List ℕ)
came c = token_image c.list (ascii c.text) c.area

pub images : map came accepted ≡ map (λ (c : Case). c.comes) accepted
unfolding computed times accepted
images = refl

pub refused_are : map came refusals ≡ map (λ (c : Case). c.comes) refusals
unfolding computed times refusals
refused_are = refl

-- in a longer area "the bytes beyond untouched"; after a refusal "the area as lent"
pub areas :
    tokens_on (t 0 0 1) (ascii "a") (times 67 (7 ∷ [])) ∷ tokens_on (t 0 0 1) (ascii "a") (7 ∷ 8 ∷ []) ∷ []
    ≡ (ok 65, joined (map u32 (1 ∷ 1 ∷ 1 ∷ 1 ∷ 0 ∷ 40 ∷ 44 ∷ 52 ∷ 64 ∷ 65 ∷ 1 ∷ 1 ∷ 0 ∷ 0 ∷ 0 ∷ 1 ∷ [])) ++ ascii "a" ++ (7 ∷ 7 ∷ []))
    ∷ (refused (refusal_of 53 0 0), 7 ∷ 8 ∷ []) ∷ []
unfolding computed times
areas = refl

-- what a run says of the images of `a , b ; c` and of document 01's line: the literals are still to be filled in (17)
abbrev ran : List ℕ → String → Result (List ℕ)
ran list text = token_image list (ascii text) 500 >>= λ image. ok (listing image (run image (under 0) 1000))

pub runs :
    ran three "a , b ; c" ∷ ran listed "10u4, 5u4; rec[..8]" ∷ []
    ≡ ok (ascii "layout 2 3 - none D Z -\nc 0 2 - none D Z\nvariable +0 - b\nvariable +0 - a\nc 1 1 - none D Z\nvariable +0 - c\n")
    ∷ ok (ascii "refused 17 0 0\n") ∷ []
unfolding computed
runs = refl
