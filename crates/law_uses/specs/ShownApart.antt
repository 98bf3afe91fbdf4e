pub mod ShownApart
